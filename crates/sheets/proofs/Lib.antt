pub mod FlatLaws
pub mod SheetLaws
pub mod ThereAndBack
pub mod Unique
