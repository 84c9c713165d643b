pub mod Views
pub mod Names
pub mod Chars
pub mod References
pub mod Blocks
