pub mod Part
pub mod Codes
pub mod Copies
