pub mod Board
pub mod Cells
pub mod Laws
pub mod States
pub mod Windows
