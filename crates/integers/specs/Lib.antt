pub mod Integers
pub mod FoldedNumbers
