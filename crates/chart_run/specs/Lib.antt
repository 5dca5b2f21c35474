pub mod Drawings
pub mod Layouts
pub mod Orders
pub mod Runs
