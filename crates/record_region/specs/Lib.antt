pub mod Chunks
pub mod Places
pub mod Chains
pub mod Runs
pub mod laws
