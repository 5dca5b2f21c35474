pub mod Drawn
pub mod LayoutsRead
pub mod Plays
