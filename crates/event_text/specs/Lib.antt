pub mod Texts
pub mod Boxed
