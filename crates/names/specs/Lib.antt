pub mod Language
pub mod code
