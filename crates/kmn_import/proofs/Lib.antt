pub mod Accepted
pub mod Alike
pub mod Kept
pub mod Texts
pub mod Utf16Steps
