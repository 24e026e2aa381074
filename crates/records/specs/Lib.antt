pub mod Records
pub mod Counting
pub mod Tallies
pub mod Frames
