pub mod Ends
pub mod Upgrades
pub mod Serving
