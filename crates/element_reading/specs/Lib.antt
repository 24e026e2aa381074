pub mod Rows
pub mod code
pub mod Table
pub mod Given
pub mod Permitted
pub mod Promises
pub mod Examples
pub mod Reading
