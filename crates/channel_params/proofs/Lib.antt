pub mod Maps
pub mod Probs
pub mod Early
