mod Examples
pub mod Same
pub mod Objects
pub mod Bridge
pub mod Turns
pub mod Still
