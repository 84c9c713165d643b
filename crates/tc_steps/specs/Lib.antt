pub mod Led
pub mod Classes
pub mod Open
pub mod Numbered
pub mod Moving
pub mod Judged
pub mod Sets
pub mod Remembered
