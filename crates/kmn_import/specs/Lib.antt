pub mod Import
pub mod Laws
pub mod Units
pub mod Utf16
