pub mod SideBySide
pub mod Cells
