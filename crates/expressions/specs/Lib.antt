pub mod code
pub mod Folds
