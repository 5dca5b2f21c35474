pub mod Sizes
pub mod Spellings
pub mod Places
pub mod Excess
