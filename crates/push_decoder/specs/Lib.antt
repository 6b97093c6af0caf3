pub mod Gathered
pub mod Stages
pub mod Events
pub mod Reading
pub mod Told
pub mod Decoder
pub mod Ends
pub mod Laws
