pub mod Headers
pub mod SoundSamples
pub mod PlainBytes
pub mod SoundBytes
pub mod RowBytes
pub mod Written
pub mod Whole
pub mod Reading
