mod Lefts
mod Falls
mod Filed
mod Turned
mod Wakings
mod WokenLines
mod WokenLefts
mod Lasting
mod Comings
mod Overs
mod Starts
mod Unflipped
pub mod Outputs
