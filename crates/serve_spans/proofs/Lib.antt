pub mod Lists
pub mod Spans
pub mod Alone
pub mod Going
