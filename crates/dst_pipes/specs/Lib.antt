pub mod Fronts
pub mod States
pub mod Steps
pub mod Endings
