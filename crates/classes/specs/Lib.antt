pub mod Bytes
pub mod Signs
pub mod Runs
