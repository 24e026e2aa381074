pub mod Tables
pub mod Lines
