pub mod Doubling
pub mod Masks
pub mod Shifts
