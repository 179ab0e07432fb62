pub mod CERT
pub mod Enums
pub mod HEX
pub mod SMIMEA
pub mod SSHFP
pub mod TLSA
pub mod TokenRows
