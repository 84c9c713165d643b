pub mod Listings
pub mod Rules
pub mod Fits
pub mod Rejects
pub mod Rooms
pub mod Checkers
pub mod Firsts
pub mod RejectedPlaces
