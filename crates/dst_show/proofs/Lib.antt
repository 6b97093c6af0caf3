pub mod LineByLine
pub mod ReportedLines
pub mod FrameSounds
pub mod InTurn
pub mod ShownFiles
pub mod Viewed
