pub mod Reading
pub mod Walking
pub mod Tiling
pub mod Moving
pub mod InParts
