pub mod Lines
pub mod RunAnswers
pub mod Answers
pub mod Weaving
pub mod Replies
pub mod CallAnswers
pub mod Outcome
pub mod Laws
