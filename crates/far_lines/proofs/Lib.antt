pub mod Over
pub mod Exchanged
