pub mod Expressions
pub mod Rows
pub mod Turns
