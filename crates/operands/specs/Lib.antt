pub mod code
pub mod SpelledOperators
