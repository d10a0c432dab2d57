pub mod Chunks
pub mod Response
pub mod inner
