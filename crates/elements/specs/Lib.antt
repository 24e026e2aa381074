pub mod Kinds
pub mod Element
pub mod code
