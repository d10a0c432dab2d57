pub mod Born
pub mod Showing
pub mod IfOk
pub mod Pieces
pub mod Paging
pub mod Caching
pub mod StoredTexts
pub mod AsItStands
