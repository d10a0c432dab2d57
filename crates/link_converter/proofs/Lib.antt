pub mod Lacks
pub mod Taken
pub mod Asked
