pub mod Picked
pub mod Stretches
