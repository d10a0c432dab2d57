pub mod Numbered
pub mod FieldLaws
pub mod Shown
pub mod Sent
pub mod inner
