pub mod CAA
pub mod CSYNC
pub mod RecordTypeSet
pub mod Issuer
pub mod Steps
pub mod TokenRows
