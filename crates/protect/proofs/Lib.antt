pub mod KindsFound
pub mod Appends
