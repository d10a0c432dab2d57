pub mod Asking
pub mod PhraseLaws
