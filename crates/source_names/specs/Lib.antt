pub mod Causes
pub mod Telling
pub mod Laws
