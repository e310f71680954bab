pub mod QuotientLaws
pub mod Meaning
pub mod Distinct
pub mod Whole
pub mod Bounds
pub mod KeptLaws
pub mod Example
