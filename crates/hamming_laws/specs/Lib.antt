pub mod PositionsOfWords
pub mod Places
pub mod Masks
pub mod WordValues
pub mod Words
