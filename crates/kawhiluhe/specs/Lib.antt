pub mod AnswerNumbers
pub mod StoredNumbers
pub mod AnswerWords
