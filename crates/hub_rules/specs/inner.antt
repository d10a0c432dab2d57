pub mod RuleFalls
pub mod SeenSpot
pub mod Spots
