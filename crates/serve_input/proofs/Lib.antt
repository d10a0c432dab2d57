pub mod Alone
pub mod Opened
