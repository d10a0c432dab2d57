pub mod Counting
pub mod Settings
pub mod Calling
pub mod Steps
pub mod Drilling
pub mod inner
