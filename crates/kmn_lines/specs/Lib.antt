pub mod Bytes
pub mod Lines
pub mod Tokens
pub mod Places
pub mod Walks
pub mod Laws
