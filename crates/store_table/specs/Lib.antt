pub mod First
pub mod Known
pub mod Names
pub mod Places
pub mod Numbering
