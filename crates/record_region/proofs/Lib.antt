pub mod Walks
pub mod Stores
pub mod Labels
pub mod Views
pub mod Regions
pub mod Opening
pub mod Called
mod OwnChunks
