pub mod Chosen
pub mod Refuses
pub mod Conditions
pub mod inner
