pub mod Fronts
pub mod Rules
pub mod Table
pub mod Written
