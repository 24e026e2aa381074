pub mod Spelling
pub mod Begun
pub mod Finding
pub mod Letters
pub mod Promises
pub mod Examples
