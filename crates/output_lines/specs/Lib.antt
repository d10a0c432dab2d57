pub mod Lines
pub mod Listening
