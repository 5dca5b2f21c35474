pub mod Words
pub mod NulWords
pub mod PlainFlags
pub mod NomatchWords
pub mod Conversions
