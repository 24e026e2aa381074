pub mod Outcomes
pub mod Folding
