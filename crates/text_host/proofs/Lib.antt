pub mod Alone
mod Errors
mod Fields
pub mod BracketLaws
pub mod LineLaws
pub mod Foreseen
