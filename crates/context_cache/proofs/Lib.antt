pub mod Cached
pub mod Windows
