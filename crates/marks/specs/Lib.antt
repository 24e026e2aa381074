pub mod code
