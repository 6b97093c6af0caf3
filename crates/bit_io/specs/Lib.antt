pub mod Buffer
pub mod Reading
pub mod Writing
