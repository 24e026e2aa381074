pub mod Listings
pub mod WrittenParts
pub mod Samples
pub mod StoredListings
