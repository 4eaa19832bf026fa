pub mod Wide
pub mod Range
pub mod Kept
pub mod Stops
