pub mod Laws
pub mod Numbers
pub mod Fields
pub mod Lines
