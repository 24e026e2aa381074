pub mod FieldLaws
pub mod ItemLaws
pub mod Inverse
pub mod Names
pub mod Promises
pub mod Examples
