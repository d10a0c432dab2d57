pub mod Rows
pub mod View
pub mod Moves
pub mod Bounds
pub mod SlotUses
pub mod laws
pub mod inner
