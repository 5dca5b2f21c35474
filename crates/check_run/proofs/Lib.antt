pub mod Checks
pub mod Concluding
pub mod Endings
pub mod FoundInputs
pub mod LayoutIds
