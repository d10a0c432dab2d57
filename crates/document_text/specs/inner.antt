pub mod Cut
pub mod Ending
