pub mod Parts
pub mod Definition
pub mod DocumentLaws
pub mod Laws
pub mod Example
pub mod History
