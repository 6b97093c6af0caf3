pub mod Windows
pub mod ByteLists
pub mod Buffers
