pub mod Lookup
pub mod Sizes
pub mod Missing
pub mod Level
pub mod Fillings
pub mod Existing
