pub mod Meanings
pub mod Walks
pub mod Parsed
pub mod Refused
