pub mod Colons
pub mod Crosses
pub mod Partners
