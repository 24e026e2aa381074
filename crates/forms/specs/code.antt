pub mod Picks
pub mod Shapes
pub mod Kinds
pub mod RuleNames
pub mod Rules
pub mod Reading
pub mod ItemReading
pub mod RuleActions
