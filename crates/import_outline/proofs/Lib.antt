pub mod Reached
pub mod UsedGroups
