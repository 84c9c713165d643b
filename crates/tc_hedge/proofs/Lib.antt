pub mod Gathers
pub mod SetsRuns
pub mod Thinning
pub mod Leading
pub mod Bounds
pub mod TableRows
pub mod Puts
pub mod Sides
