pub mod Words
pub mod Tried
pub mod Shapes
pub mod SeenSet
pub mod RuleRead
pub mod SetRead
pub mod Told
pub mod Written
