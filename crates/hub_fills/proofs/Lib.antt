pub mod Under
pub mod Chosen
pub mod LateFolds
pub mod Growing
