pub mod Onto
pub mod Scopes
pub mod Numbered
pub mod MainName
