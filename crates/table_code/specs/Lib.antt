pub mod Kinds
pub mod Spellings
pub mod KindLaws
pub mod Parts
pub mod Choices
