pub mod Effects
pub mod Turning
pub mod Steps
pub mod Families
pub mod Turns
pub mod Starts
pub mod TurnRuns
