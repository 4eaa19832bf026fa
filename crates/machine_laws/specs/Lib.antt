pub mod Locate
pub mod Locates
pub mod Layouts
pub mod Members
pub mod Widths
