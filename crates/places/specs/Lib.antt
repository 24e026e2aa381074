pub mod Sizes
pub mod Kinds
pub mod Places
