pub mod LineLaws
pub mod TextLaws
pub mod TableLaws
pub mod Turns
pub mod Answers
pub mod Promises
pub mod Examples
