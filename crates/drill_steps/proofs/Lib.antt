pub mod Alone
pub mod Results
pub mod Opened
pub mod Counted
