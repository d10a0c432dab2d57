pub mod Found
pub mod Agrees
pub mod Walk
pub mod Placed
pub mod NoDefaults
