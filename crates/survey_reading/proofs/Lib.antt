pub mod Laws
mod Told
pub mod Joined
pub mod Promises
pub mod Permits
pub mod Records
