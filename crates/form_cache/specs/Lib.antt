pub mod Limits
pub mod Forms
pub mod Same
pub mod View
pub mod Brings
pub mod Laws
