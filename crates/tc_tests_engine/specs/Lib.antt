pub mod Kept
pub mod Samples
