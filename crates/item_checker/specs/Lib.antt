pub mod Items
pub mod Summaries
