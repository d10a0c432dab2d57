pub mod Answered
pub mod Ends
pub mod Gates
pub mod Helping
pub mod Jobs
