pub mod Lawful
pub mod Alike
pub mod OneReply
pub mod Whole
pub mod OneStep
pub mod OneDrill
