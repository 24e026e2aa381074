pub mod Puts
pub mod Held
pub mod Lengths
pub mod Whole
pub mod Sizes
pub mod Promises
