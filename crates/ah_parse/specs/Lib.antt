pub mod Aspects
pub mod GuardFiles
pub mod Descent
