pub mod FitCode
pub mod Inside
pub mod OneToOne
