pub mod Larger
pub mod Tokens
pub mod Mapped
pub mod Folded
pub mod Unseen
pub mod States
pub mod Counted
