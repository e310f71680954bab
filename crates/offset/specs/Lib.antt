pub mod Ints
pub mod Offset
