pub mod ViewCalls
pub mod PartOctets
pub mod ZoneReads
