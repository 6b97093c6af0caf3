pub mod Masks
pub mod Times
pub mod Parting
pub mod Tables
pub mod Eight
pub mod Taking
pub mod Ahead
pub mod Beginning
