pub mod Bounds
pub mod Keys
pub mod Laws
pub mod Ranges
pub mod Scan
pub mod Spelling
