pub mod Forms
pub mod Opening
pub mod Rows
pub mod Standing
pub mod Laws
pub mod Reading
