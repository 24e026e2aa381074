pub mod Parts
pub mod Promises
pub mod Sizes
pub mod Samples
pub mod Trees
pub mod StoredListings
