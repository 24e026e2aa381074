pub mod Cutting
pub mod Kinds
pub mod Classes
pub mod Columns
pub mod Records
pub mod Frames
