pub mod HoldLaws
pub mod RangeLaws
pub mod ByteLaws
pub mod BeginLaws
pub mod AgreeLaws
pub mod ReadWritten
pub mod WriteRead
pub mod Longest
