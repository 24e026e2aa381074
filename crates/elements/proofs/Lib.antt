pub mod Rules
pub mod Cases
pub mod Sizes
pub mod Skips
