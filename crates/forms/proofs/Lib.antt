mod Hints
pub mod Tests
pub mod Meaning
pub mod Steps
pub mod RowWords
pub mod Nesting
pub mod Growing
pub mod Examples
pub mod Tiling
pub mod Leaves
pub mod Opening
pub mod ItemReading
pub mod Positive
pub mod Shapes
pub mod Operators
mod Telling
mod Comparing
pub mod Closing
mod Patterns
pub mod Summaries
pub mod Fitting
pub mod Owners
mod Refused
pub mod Labels
pub mod OwnOperators
pub mod Walking
