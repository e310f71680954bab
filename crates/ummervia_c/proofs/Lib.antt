pub mod Unique
pub mod Demand1
pub mod Answered
