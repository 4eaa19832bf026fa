pub mod PartCode
pub mod Wrapping
