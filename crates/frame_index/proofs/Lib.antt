pub mod Comparing
pub mod Entries
pub mod Faults
pub mod InOrder
pub mod Indexed
pub mod OneMore
pub mod Passing
pub mod Walking
