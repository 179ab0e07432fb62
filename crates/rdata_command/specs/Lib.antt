pub mod Request
pub mod Report
pub mod Parsing
pub mod Comparing
pub mod Reasons
