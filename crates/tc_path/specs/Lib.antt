pub mod Views
pub mod Reasons
pub mod Faults
pub mod NameTokens
pub mod Phrases
pub mod Contexts
pub mod Known
pub mod Scopes
