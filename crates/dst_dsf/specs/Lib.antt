pub mod Rows
pub mod Gathering
pub mod Said
pub mod Draining
pub mod Frames
pub mod Decoding
pub mod Rooms
