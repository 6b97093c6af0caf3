pub mod Placed
pub mod Seen
