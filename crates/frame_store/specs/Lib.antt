pub mod Choosing
pub mod Coded
pub mod Measured
pub mod Pairs
pub mod Probs
pub mod Storing
