pub mod Inside
pub mod RuleCode
