pub mod Fault
pub mod inner
pub mod laws
