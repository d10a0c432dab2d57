pub mod Passing
pub mod Places
pub mod Putting
pub mod Sending
pub mod Parting
pub mod Spelled
pub mod Rising
