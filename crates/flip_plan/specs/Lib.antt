pub mod Texts
pub mod Numbers
pub mod Plans
pub mod Kinds
pub mod Rules
pub mod Reading
pub mod Steps
