pub mod TurnLimits
pub mod Frames
pub mod Entering
pub mod Acts
pub mod Elaborated
pub mod Normal
pub mod Runs
