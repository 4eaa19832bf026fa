pub mod Document
pub mod Texts
pub mod Expressions
pub mod Listed
pub mod Statements
pub mod Programs
pub mod Printing
pub mod Examples
