pub mod Loaded
pub mod Known
pub mod Opening
pub mod Faults
pub mod DefinitionLaws
pub mod laws
pub mod Hook
pub mod Turning
