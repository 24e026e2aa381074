pub mod Leaves
pub mod Operands
