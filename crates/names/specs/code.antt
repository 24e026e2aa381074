pub mod Language
pub mod Chains
pub mod Links
pub mod Names
