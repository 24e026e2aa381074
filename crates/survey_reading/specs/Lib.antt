pub mod Given
pub mod Permitted
pub mod Records
pub mod code
