pub mod Lower
pub mod Names
pub mod Different
pub mod Rows
pub mod Promises
