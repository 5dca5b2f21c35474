pub mod Conversions
pub mod Laws
