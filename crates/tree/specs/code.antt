pub mod Room
pub mod Held
pub mod PieceRows
pub mod Answers
