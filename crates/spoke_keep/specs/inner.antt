pub mod Seen
pub mod Shaping
