pub mod Bodies
pub mod Answers
pub mod Example
