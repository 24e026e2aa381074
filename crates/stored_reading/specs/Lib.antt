pub mod StoredRows
pub mod Refusals
pub mod Permitted
pub mod Promises
pub mod code
