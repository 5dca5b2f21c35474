pub mod Among
pub mod Counting
pub mod Lines
