pub mod Rule
pub mod Sound
pub mod Seen
pub mod Refusal
pub mod Told
pub mod laws
pub mod inner
