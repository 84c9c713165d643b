pub mod Named
pub mod Lined
pub mod OperandsRead
pub mod Numerals
pub mod OneCommand
pub mod Validations
pub mod ReadsOnce
pub mod SchemaWordsLaws
pub mod Options
pub mod NoCommand
pub mod OperandWords
pub mod Marked
pub mod SpotLines
mod Written
