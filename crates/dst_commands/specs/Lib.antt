pub mod Commands
pub mod Opened
pub mod Writing
pub mod Passing
pub mod Rooms
