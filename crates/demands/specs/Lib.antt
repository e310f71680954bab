pub mod Demanded
pub mod Exactly
pub mod Answers
pub mod Table
pub mod Calls
pub mod Words
pub mod Thinned
pub mod Stored
