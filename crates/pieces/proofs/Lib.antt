pub mod Cutting
pub mod Laws
pub mod Classing
pub mod Table
pub mod Frames
