pub mod Puts
pub mod Promises
