pub mod FieldNames
pub mod Overlaps
pub mod RecordTypeLaws
pub mod TypeTexts
