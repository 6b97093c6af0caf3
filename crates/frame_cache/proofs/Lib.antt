pub mod Holding
pub mod Renewing
pub mod Orders
pub mod Sounding
pub mod Wanting
pub mod Filling
pub mod Bringing
pub mod Ending
