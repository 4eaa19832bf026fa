pub mod Exits
pub mod Strip
pub mod Guarded
pub mod Bodies
pub mod Kept
pub mod Normal
pub mod Example
