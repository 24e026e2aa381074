pub mod Given
pub mod Permitted
pub mod code
pub mod Promises
