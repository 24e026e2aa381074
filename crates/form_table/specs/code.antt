pub mod FormBytes
pub mod Symbols
