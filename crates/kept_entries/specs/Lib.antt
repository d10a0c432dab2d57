pub mod Entry
pub mod Text
pub mod Refusal
pub mod laws
