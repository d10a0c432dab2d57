pub mod Spans
pub mod Owners
pub mod Served
pub mod inner
