pub mod Orders
pub mod Counting
pub mod Loops
