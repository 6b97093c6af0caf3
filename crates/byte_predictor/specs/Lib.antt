pub mod Samples
pub mod Parts
pub mod Upward
pub mod RowSums
pub mod SumsAhead
pub mod Eight
pub mod KnownRows
pub mod KnownAhead
