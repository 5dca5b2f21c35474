pub mod Inputs
pub mod Shown
pub mod Printed
pub mod Orders
pub mod Runs
