pub mod Encoding
pub mod Lanes
pub mod Leaving
pub mod Measuring
pub mod Registers
