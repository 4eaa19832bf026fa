pub mod Turns
pub mod Int32
pub mod Steps
pub mod Sums
pub mod Program
pub mod Normal
pub mod Laws
pub mod Example
