pub mod AllConversions
pub mod NomatchWords
pub mod NulWords
pub mod PlainFlags
pub mod Steps
pub mod ReplacedWords
