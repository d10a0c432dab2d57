pub mod Digits
pub mod Phrases
pub mod Heads
pub mod Requests
pub mod Responses
pub mod Examples
