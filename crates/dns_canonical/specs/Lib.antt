pub mod Cursor
pub mod Fronts
pub mod Runs
pub mod Steps
