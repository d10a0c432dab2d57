pub mod Places
pub mod Froms
pub mod Within
mod Spelling
pub mod Plains
