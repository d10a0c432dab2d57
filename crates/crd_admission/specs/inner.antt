pub mod Count
pub mod Weighing
pub mod Documents
