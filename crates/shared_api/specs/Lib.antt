pub mod Base
pub mod Passes
pub mod Faults
pub mod Answered
pub mod Steps
pub mod inner
