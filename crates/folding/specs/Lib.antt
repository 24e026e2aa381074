pub mod Operators
pub mod code
