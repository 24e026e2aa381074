pub mod PieceValues
pub mod Promises
