pub mod FarLaws
