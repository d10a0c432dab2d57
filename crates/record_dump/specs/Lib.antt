pub mod Lines
pub mod Dumps
pub mod Told
pub mod Restores
pub mod inner
