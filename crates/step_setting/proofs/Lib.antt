pub mod LookUps
pub mod Lines
