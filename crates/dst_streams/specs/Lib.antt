pub mod Causes
pub mod Laws
pub mod MemorySink
pub mod Told
