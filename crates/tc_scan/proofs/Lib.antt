pub mod FrontLaws
pub mod NamesLaws
pub mod CharsLaws
pub mod CharsFront
pub mod PlainBlocks
pub mod BlockLaws
pub mod ReferenceLaws
mod Prefixes
