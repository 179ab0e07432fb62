mod IssuerSteps
pub mod Issuers
mod Rising
pub mod CaaOrders
pub mod CaaValues
pub mod CsyncValues
pub mod Marks
pub mod WindowOctets
pub mod WindowSteps
pub mod Windows
pub mod TokenTypes
