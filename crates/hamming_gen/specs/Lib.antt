pub mod Positions
pub mod HammingWords
pub mod HammingNames
pub mod HammingTrees
pub mod Hamming
