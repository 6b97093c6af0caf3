pub mod Entries
pub mod Fitting
pub mod Finding
pub mod Lookup
