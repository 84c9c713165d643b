mod Causes
mod Counted
pub mod Files
pub mod Fronts
pub mod HeldFacts
mod KnownBytes
pub mod ReadsInOrder
mod Rooms
