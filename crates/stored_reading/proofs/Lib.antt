pub mod StepLaws
pub mod Cases
pub mod Permits
pub mod Whole
pub mod Names
pub mod Promises
