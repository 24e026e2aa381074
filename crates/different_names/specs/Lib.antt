pub mod StandingNames
pub mod code
