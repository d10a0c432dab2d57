pub mod Turns
pub mod Turned
pub mod Answers
pub mod Seen
pub mod Dishonest
pub mod Renaming
pub mod Honest
