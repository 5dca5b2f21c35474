pub mod Drawings
pub mod Hexadecimal
pub mod Touched
