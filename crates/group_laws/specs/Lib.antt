pub mod Unreached
pub mod Readonly
