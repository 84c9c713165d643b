pub mod Runs
pub mod Plain
pub mod Names
pub mod Trees
mod ReadBackChars
mod ReadBackText
mod ReadBackTrees
pub mod ReadBack
pub mod Failed
pub mod Writing
