mod Joined
mod Lines
mod PartWords
mod Insides
mod MarkSets
mod Depths
mod Dues
mod Firsts
pub mod Orders
pub mod Waits
