pub mod Made
pub mod Reaching
pub mod Bridges
pub mod Sizes
