pub mod Bodies
mod Unique
mod Codings
pub mod Heads
pub mod Handing
