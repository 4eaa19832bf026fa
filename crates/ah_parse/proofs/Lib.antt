pub mod Beginnings
pub mod Classes
pub mod Parts
pub mod Taken
pub mod Files
pub mod Decided
