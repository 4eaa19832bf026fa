pub mod Dialect
pub mod Parts
pub mod Types
pub mod Simples
pub mod Streams
pub mod Statements
