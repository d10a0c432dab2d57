pub mod Joined
pub mod Starting
pub mod Sorting
pub mod NamedMigrations
pub mod Offering
