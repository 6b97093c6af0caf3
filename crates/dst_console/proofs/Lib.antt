pub mod AskedWords
pub mod PipeWords
