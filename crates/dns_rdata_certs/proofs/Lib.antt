pub mod Fronts
pub mod Numbers
pub mod Values
pub mod TokensBack
