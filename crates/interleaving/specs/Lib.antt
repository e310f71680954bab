pub mod Columns
pub mod First
pub mod Second
pub mod Turns
pub mod Directions
pub mod Whole
