pub mod AllFitted
pub mod Following
pub mod SetCode
pub mod ViewCode
