pub mod Nones
pub mod Rows
pub mod Standing
pub mod Accepting
pub mod Few
pub mod SoundDefaults
pub mod ValidDefaults
pub mod VersionSteps
