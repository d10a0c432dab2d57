pub mod Inside
pub mod JsonCode
pub mod Last
pub mod Place
pub mod SameLaws
