pub mod Parts
pub mod Items
pub mod Sums
pub mod Digits
pub mod Rooms
pub mod Numbered
