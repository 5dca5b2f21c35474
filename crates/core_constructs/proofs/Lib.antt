pub mod Folds
pub mod Live
pub mod Lines
pub mod Saved
pub mod Depths
pub mod Same
