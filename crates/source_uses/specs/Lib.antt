pub mod Lines
pub mod Uses
pub mod Elements
pub mod Marks
pub mod Pairs
pub mod Choices
pub mod Laws
