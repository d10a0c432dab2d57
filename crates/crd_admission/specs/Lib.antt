pub mod Low
pub mod Steps
pub mod NoHub
pub mod inner
