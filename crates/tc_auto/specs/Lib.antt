pub mod Steps
pub mod Stands
pub mod Rows
pub mod Repeats
pub mod Arrows
