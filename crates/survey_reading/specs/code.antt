pub mod Tables
pub mod Survey
pub mod Promises
