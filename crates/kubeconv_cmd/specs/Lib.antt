pub mod Serving
pub mod World
pub mod Sources
pub mod Tasks
pub mod Status
pub mod Remote
pub mod Outcome
pub mod inner
