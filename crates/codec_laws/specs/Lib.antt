pub mod Values
pub mod Names
pub mod Solo
pub mod Blocks
pub mod BlockRuns
pub mod OfPart
pub mod BlockTurns
pub mod Elaboration
