pub mod Derivation
pub mod DistinctNames
pub mod SpelledNames
