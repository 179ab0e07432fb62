pub mod Errors
pub mod RecordTypes
pub mod SmallOctets
