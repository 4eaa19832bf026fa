pub mod Gate
pub mod Part
pub mod Rules
pub mod BlockLaws
pub mod Invariant
pub mod Moves
pub mod Laws
