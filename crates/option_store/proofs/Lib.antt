pub mod FirstCells
pub mod Meaning
