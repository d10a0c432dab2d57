pub mod Filling
pub mod Left
pub mod Lookup
pub mod Names
pub mod Over
pub mod Spots
pub mod Turned
