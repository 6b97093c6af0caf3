pub mod Codes
pub mod Filling
pub mod Predicting
pub mod Rows
