pub mod WorkGuards
