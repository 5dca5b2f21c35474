pub mod Columns
pub mod Bytes
pub mod Names
pub mod Spots
pub mod Placed
