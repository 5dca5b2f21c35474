pub mod AsideBytes
pub mod HiddenElements
pub mod Pressed
