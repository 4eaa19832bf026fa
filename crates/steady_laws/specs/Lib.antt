pub mod EntryBlocks
pub mod Elaboration
pub mod Steady
