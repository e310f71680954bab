pub mod Joining
pub mod Range
pub mod Linked
pub mod Whole
