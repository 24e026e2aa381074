pub mod Values
pub mod ValueWords
pub mod code
