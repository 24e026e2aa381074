pub mod Verdict
pub mod code
