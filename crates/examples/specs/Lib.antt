pub mod Examples
pub mod Folded
pub mod StoredExample
