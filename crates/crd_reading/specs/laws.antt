pub mod ViewCode
