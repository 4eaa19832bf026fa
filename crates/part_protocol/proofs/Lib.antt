pub mod Sums
pub mod Order
pub mod Sure
pub mod Keeps
pub mod Turns
pub mod Broken
pub mod Flips
pub mod Parts
