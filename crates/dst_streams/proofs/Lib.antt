pub mod Counts
pub mod Examples
pub mod Parts
pub mod Told
