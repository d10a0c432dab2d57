pub mod Sealed
pub mod Readying
pub mod Replacing
pub mod Removing
pub mod Leavings
pub mod inner
