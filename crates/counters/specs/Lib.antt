pub mod Lines
pub mod Refusals
pub mod Counting
pub mod Promised
