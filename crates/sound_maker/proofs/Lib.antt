pub mod Making
pub mod Steps
