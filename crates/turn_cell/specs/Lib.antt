pub mod Numbers
pub mod Views
pub mod Rule
pub mod Steps
pub mod Turns
pub mod laws
