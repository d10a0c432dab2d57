pub mod Lines
pub mod Given
pub mod inner
