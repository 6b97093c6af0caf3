pub mod LineByLine
pub mod Reporting
pub mod Frame
