pub mod Migrating
pub mod Changing
pub mod Starting
pub mod inner
