pub mod Leading
pub mod Stands
pub mod Items
pub mod Sized
