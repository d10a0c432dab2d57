pub mod Codes
pub mod Sound
pub mod Calling
pub mod Talking
pub mod Failures
pub mod Pacing
pub mod Ending
