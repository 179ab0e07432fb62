pub mod Labels
pub mod Reading
pub mod Comparing
pub mod Emission
pub mod Messages
pub mod Text
pub mod TextFaults
