pub mod Reserved
pub mod Alike
