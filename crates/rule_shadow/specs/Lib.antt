pub mod Keys
pub mod Places
pub mod Flags
pub mod Covers
pub mod Near
pub mod Finding
pub mod Laws
