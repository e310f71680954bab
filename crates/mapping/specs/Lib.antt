pub mod Mapping
pub mod Strides
pub mod Runs
pub mod Lines
pub mod Pairs
pub mod Rounds
pub mod Settled
