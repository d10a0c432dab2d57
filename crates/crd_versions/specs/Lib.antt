pub mod Set
pub mod inner
