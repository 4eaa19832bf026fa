pub mod TurnLimits
pub mod HaltFree
pub mod NeverHalted
