pub mod Places
pub mod Faults
pub mod Told
pub mod PageTexts
pub mod Cached
pub mod Listing
