pub mod Asking
pub mod Part
pub mod Naming
