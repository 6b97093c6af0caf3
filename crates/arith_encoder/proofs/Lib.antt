pub mod Carrying
pub mod Joining
pub mod Leaving
pub mod Moving
pub mod Narrowing
pub mod SideBySide
pub mod Scalings
pub mod Spelling
