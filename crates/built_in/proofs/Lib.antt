pub mod Sound
pub mod Read
pub mod Unread
pub mod Allowed
pub mod Standing
pub mod ExampleAllowed
pub mod ExampleRead
