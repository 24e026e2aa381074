pub mod Laws
pub mod Spelling
pub mod Sameness
