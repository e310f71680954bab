pub mod Signed
pub mod Shares
