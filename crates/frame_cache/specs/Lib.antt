pub mod Slots
pub mod Reader
pub mod Reads
pub mod Inside
