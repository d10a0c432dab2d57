pub mod Differ
pub mod InnerFits
