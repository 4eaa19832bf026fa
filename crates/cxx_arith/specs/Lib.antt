pub mod Kinds
pub mod Numbers
pub mod Bounds
pub mod Arithmetic
pub mod Laws
