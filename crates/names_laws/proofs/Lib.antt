pub mod Lists
pub mod Derivation
pub mod DistinctNames
pub mod SpelledParts
pub mod SpelledNames
