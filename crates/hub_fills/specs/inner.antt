pub mod FillsCode
pub mod FillsFalls
pub mod LateLaws
pub mod UnderLaws
