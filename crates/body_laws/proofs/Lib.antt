pub mod Fields
pub mod Cells
pub mod Back
pub mod Total
pub mod Stays
pub mod Settled
pub mod Reach
pub mod Example
