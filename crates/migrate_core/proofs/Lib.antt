pub mod Changes
pub mod Spans
pub mod Plans
pub mod NameFits
