pub mod Lawful
pub mod More
pub mod Outcome
