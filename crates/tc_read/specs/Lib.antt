pub mod Faults
pub mod Refusals
pub mod Schemas
pub mod Sheets
pub mod SchemaLaws
pub mod DocumentLaws
pub mod SheetLaws
