pub mod Inserted
pub mod Unstored
