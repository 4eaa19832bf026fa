pub mod PartWords
pub mod MarkSets
pub mod Tops
pub mod Numbered
pub mod Spots
