pub mod Fields
pub mod StoredItems
pub mod LegalNames
pub mod Stored
pub mod Promises
pub mod Examples
pub mod code
