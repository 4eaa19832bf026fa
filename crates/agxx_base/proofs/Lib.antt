pub mod Interning
pub mod Leasts
pub mod Lists
pub mod Order
pub mod Pieces
pub mod Readings
pub mod Sinks
