pub mod Channels
pub mod Map
