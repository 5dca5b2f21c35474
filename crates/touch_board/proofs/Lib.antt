mod Values
pub mod WordsFound
