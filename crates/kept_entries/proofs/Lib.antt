pub mod OneList
pub mod Refused
pub mod Steps
