pub mod Conversed
