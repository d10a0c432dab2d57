pub mod NameLaws
pub mod RightLaws
