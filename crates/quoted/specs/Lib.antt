pub mod Quoted
pub mod code
