pub mod Alive
pub mod Loops
pub mod Steps
pub mod Shaping
pub mod Completing
