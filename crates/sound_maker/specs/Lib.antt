pub mod Waves
pub mod Making
