pub mod Size
pub mod SoundDefaults
pub mod inner
