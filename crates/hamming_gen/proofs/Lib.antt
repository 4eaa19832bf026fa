pub mod Numbered
pub mod Members
pub mod Enough
pub mod Statements
