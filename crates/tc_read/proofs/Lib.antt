pub mod Exits
pub mod OtherEntities
mod TextFaults
mod RefusedTexts
pub mod SchemaReasons
pub mod SheetMeanings
pub mod DecidingSettings
pub mod DecidingMisc
pub mod DecidingTags
pub mod DecidingStartTags
pub mod DecidingElements
pub mod DecidingDocuments
pub mod DocumentReasons
pub mod SheetReasons
