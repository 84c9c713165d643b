pub mod Sets
pub mod Rows
pub mod Composed
pub mod Keys
pub mod CallerLemmas
mod Causes
