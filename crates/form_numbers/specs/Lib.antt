pub mod Forms
pub mod Statements
