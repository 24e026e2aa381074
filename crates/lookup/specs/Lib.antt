pub mod Lookup
pub mod Finds
pub mod Structs
pub mod Promises
