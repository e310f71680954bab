pub mod Text
pub mod Pattern
pub mod Every
pub mod Run
pub mod Closed
