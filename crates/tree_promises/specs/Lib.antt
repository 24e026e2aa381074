pub mod Due
pub mod code
