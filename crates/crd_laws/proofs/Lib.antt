pub mod Standing
pub mod Forms
pub mod Verdicts
pub mod Admitted
pub mod Causes
