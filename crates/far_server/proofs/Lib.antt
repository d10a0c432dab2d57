pub mod Serving
pub mod Made
pub mod Saying
