pub mod Steps
pub mod Weighing
pub mod Hubs
pub mod Sameness
