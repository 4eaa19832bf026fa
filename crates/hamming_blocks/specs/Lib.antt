pub mod Blocks
pub mod BlockRuns
pub mod OfPart
pub mod Elaboration
pub mod Names
