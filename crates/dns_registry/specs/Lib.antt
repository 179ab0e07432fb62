pub mod FieldRules
pub mod Formats
pub mod HostSteps
pub mod PrefixSteps
pub mod Registry
pub mod Typed
