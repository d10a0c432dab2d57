pub mod Texts
pub mod Example
