pub mod Slots
pub mod Rows
pub mod Outcome
pub mod Laws
