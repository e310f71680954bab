pub mod Layout
pub mod Counts
pub mod Fields
pub mod Reading
pub mod Sizes
pub mod Numbers
pub mod Range
