pub mod Blanked
pub mod Same
pub mod Every
pub mod Words
pub mod Walked
pub mod Fitting
pub mod Kept
