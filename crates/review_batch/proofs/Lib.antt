pub mod Spelled
pub mod Steps
pub mod Respond
pub mod Versions
pub mod Invalid
