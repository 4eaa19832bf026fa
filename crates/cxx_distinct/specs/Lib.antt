pub mod NamesIn
pub mod Sights
