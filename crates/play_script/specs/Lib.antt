pub mod Answers
pub mod Entries
pub mod Found
pub mod Lines
pub mod Presses
pub mod Strings
pub mod Words
pub mod WordsLeft
