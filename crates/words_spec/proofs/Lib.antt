pub mod Commands
pub mod OneRow
pub mod OneAnswer
pub mod Outcomes
pub mod ReadOutcomes
pub mod WriteOutcomes
pub mod Shown
