pub mod Asked
pub mod Known
pub mod Runs
