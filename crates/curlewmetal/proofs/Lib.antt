pub mod Handles
pub mod Opened
