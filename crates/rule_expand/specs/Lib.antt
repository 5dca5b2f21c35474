pub mod Values
pub mod Lookups
pub mod CasedCodes
pub mod Pieces
pub mod Groups
pub mod Expanded
pub mod Stated
pub mod Sizes
