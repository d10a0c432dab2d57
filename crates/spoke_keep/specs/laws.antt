pub mod SpokesCode
