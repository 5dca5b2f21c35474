pub mod OwnValues
pub mod Reached
