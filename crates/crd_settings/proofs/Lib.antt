pub mod Faults
pub mod Marks
pub mod Legal
pub mod Compared
pub mod Names
pub mod Texts
pub mod Room
pub mod Named
