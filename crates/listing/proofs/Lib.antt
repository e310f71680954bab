pub mod ListLaws
pub mod Example
pub mod Unique
