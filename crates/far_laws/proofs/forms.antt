pub mod Back
pub mod Admitted
