pub mod Taking
pub mod Serving
pub mod Outcomes
pub mod TaskLemmas
pub mod DrillEnding
pub mod ServeEnding
