pub mod Codes
pub mod Laid
pub mod Placed
pub mod Probs
pub mod Runs
pub mod Spelled
