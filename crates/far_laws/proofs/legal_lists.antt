pub mod Pages
pub mod Limits
pub mod Storage
pub mod Whole
pub mod Examples
