pub mod SlotLaws
pub mod TrimLaws
