pub mod Accepted
pub mod Checks
pub mod Expanded
pub mod Meaning
pub mod NoPlaces
pub mod Counted
