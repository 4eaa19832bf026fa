pub mod Constants
pub mod Classes
pub mod Declarations
pub mod Programs
pub mod Numbering
pub mod Parsed
pub mod Owned
