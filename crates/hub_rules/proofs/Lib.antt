pub mod Pushed
pub mod Products
pub mod Once
