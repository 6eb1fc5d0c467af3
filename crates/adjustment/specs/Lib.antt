pub mod Rooms
pub mod Chunks
pub mod ChunkLaws
pub mod Ends
pub mod EndLaws
