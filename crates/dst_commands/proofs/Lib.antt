pub mod InOrder
pub mod Writing
pub mod PassedOn
pub mod InTurn
pub mod Rooms
pub mod Taken
pub mod OneCall
pub mod ChunkLengths
