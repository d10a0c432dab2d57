pub mod Far
pub mod Calls
pub mod Forms
pub mod Answers
pub mod Ends
pub mod Keys
pub mod laws
pub mod inner
