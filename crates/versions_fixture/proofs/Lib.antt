pub mod Found
pub mod Kept
pub mod Pieces
pub mod Refusing
pub mod Whole
pub mod Lawful
