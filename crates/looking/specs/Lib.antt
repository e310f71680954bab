pub mod Outcome
pub mod Looking
