pub mod MoveLaws
