pub mod Parts
pub mod Asked
pub mod Reading
pub mod Opened
pub mod Ending
