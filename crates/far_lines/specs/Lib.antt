pub mod Migrated
pub mod Ends
pub mod Dumped
pub mod Loaded
