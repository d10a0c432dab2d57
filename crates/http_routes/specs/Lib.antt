pub mod Paths
pub mod Actions
pub mod Queries
pub mod Routes
pub mod Views
