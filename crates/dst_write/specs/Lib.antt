pub mod Unfinished
pub mod Encoding
pub mod Layout
pub mod Jobs
pub mod Feeding
pub mod Draining
pub mod Frames
