pub mod Receiving
pub mod Listening
