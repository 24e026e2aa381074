mod Zeros
pub mod Lists
mod Holding
mod Acts
mod Going
mod Turns
mod Writing
mod Final
pub mod Pieces
pub mod ItemRows
mod Written
