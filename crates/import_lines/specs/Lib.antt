pub mod Rewrites
pub mod Written
