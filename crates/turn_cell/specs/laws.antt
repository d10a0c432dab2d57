pub mod Laws
pub mod ShareLaws
pub mod ViewCode
