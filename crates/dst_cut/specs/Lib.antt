pub mod CutLayout
pub mod Cutting
