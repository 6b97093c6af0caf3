pub mod FramesCome
pub mod ChunksCome
pub mod Accepted
pub mod Lawful
pub mod More
pub mod OneOutcome
pub mod Outcomes
pub mod Bounds
