pub mod Words
pub mod code
