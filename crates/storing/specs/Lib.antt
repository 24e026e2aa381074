pub mod SurveyItems
pub mod Refusals
pub mod Given
pub mod Permitted
pub mod Promises
pub mod code
