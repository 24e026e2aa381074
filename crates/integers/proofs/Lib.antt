pub mod Ints
pub mod Standard
pub mod FoldedNumbers
