pub mod Days
pub mod Fronts
pub mod Plain
