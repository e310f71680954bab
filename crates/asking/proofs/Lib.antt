pub mod AskLaws
pub mod NameLaws
pub mod PartLaws
pub mod Unique
