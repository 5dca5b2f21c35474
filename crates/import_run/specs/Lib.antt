pub mod Printed
pub mod Orders
pub mod Runs
