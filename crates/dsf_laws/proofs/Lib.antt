pub mod Alike
pub mod Accepted
pub mod PlainForm
pub mod Chunks
pub mod ComingBack
