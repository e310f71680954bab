pub mod SlotLaws
pub mod FieldLaws
pub mod SizeLaws
pub mod NumberLaws
