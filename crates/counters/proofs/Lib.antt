pub mod LineLaws
pub mod CountLaws
pub mod PromiseLaws
pub mod RefusalLaws
