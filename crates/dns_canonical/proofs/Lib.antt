pub mod Comparing
pub mod Fronts
pub mod Cursors
pub mod Sharing
pub mod Copying
pub mod Sorting
