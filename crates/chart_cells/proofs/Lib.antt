pub mod Presses
pub mod Showing
