pub mod Chances
pub mod Lanes
