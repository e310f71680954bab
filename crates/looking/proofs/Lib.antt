pub mod OutcomeLaws
pub mod LookLaws
