pub mod Jobs
pub mod Feeding
pub mod Draining
pub mod Decoding
pub mod Frames
pub mod Checking
pub mod Lending
