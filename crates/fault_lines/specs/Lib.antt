pub mod Lists
pub mod Lines
pub mod Marks
pub mod Wakes
pub mod Due
pub mod Moments
pub mod Waiting
pub mod Keeping
