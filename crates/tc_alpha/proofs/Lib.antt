pub mod Steps
pub mod Orders
pub mod Members
pub mod Places
pub mod Alike
pub mod Lawful
pub mod Fresh
pub mod Sorting
pub mod Compared
pub mod InOrder
mod Errors
