pub mod Matrix
pub mod Held
pub mod Product
pub mod Factors
