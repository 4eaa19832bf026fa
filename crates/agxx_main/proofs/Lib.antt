pub mod Texts
pub mod Opens
pub mod Openings
pub mod Sources
pub mod Weavings
pub mod Dues
mod WovenRuns
