pub mod ContextItems
pub mod Counts
pub mod Reading
