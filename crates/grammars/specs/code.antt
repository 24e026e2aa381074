pub mod Grammar
pub mod Actions
