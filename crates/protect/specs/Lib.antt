pub mod Kinds
pub mod GuardedParts
pub mod Protected
pub mod GeneratedNames
