mod Parts
mod Free
mod Covers
mod Rows
mod Laying
mod Files
pub mod Only
pub mod Alone
pub mod FormElements
