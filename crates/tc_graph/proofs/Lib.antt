pub mod Marks
pub mod Tops
pub mod Walks
pub mod Joined
