pub mod BelowLaws
pub mod LookupLaws
pub mod NameLaws
pub mod Own
pub mod SameLaws
pub mod ShapeCode
