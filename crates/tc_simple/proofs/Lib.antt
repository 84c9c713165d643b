pub mod Gathering
pub mod Answered
pub mod Made
pub mod Below
pub mod Standing
pub mod Reaching
pub mod Ordered
pub mod Resolving
pub mod Numbering
pub mod Whole
pub mod Checked
mod NamePaths
pub mod SyntaxTotal
