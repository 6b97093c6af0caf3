pub mod Steps
pub mod View
pub mod Written
