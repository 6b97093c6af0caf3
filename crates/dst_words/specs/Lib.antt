pub mod Pairs
pub mod Commands
pub mod RowWords
