pub mod ListenLaws
pub mod Unique
