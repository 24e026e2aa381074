pub mod Puts
pub mod RowItems
pub mod Whole
pub mod Promises
