pub mod Dictionary
pub mod Entries
pub mod Fits
pub mod Groups
pub mod Keys
pub mod Stated
