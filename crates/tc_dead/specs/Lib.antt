pub mod Spots
pub mod Instantiated
pub mod Marked
pub mod Tells
pub mod Laws
pub mod Views
