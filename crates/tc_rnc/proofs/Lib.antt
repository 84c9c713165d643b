pub mod Views
pub mod FrontLaws
pub mod WordLaws
pub mod LexLaws
pub mod AnswerLaws
pub mod Escapes
pub mod Constructs
pub mod RefusalLaws
pub mod UnreadLaws
pub mod ScopeLaws
pub mod ClassLaws
pub mod WildcardLaws
pub mod DefinitionLaws
pub mod PatternLaws
pub mod ItemLaws
pub mod DeclarationLaws
pub mod TopLaws
pub mod Deciding
mod DecidingClasses
mod DecidingPatterns
mod DecidingSchemas
pub mod DecidingTexts
