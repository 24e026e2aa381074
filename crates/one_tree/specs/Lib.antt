pub mod FormElements
pub mod Trees
pub mod Files
pub mod code
