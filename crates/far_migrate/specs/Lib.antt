pub mod Counts
pub mod Answered
pub mod Puts
pub mod Pages
pub mod Migrates
pub mod Told
pub mod laws
pub mod inner
