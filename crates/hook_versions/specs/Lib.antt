pub mod Set
pub mod Loads
pub mod Taken
pub mod Facts
pub mod Laws
pub mod inner
