pub mod Lined
pub mod Posted
pub mod Seen
