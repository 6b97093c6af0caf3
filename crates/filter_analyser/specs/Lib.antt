pub mod Stretches
pub mod Run
