pub mod Deleting
pub mod Marking
