mod Moves
pub mod Places
