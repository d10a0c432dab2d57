pub mod Links
pub mod MemoryLinks
pub mod Returned
pub mod inner
