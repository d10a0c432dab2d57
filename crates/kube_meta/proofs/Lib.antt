pub mod InOrder
pub mod Levels
