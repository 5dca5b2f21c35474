pub mod ItemTexts
pub mod Lefts
pub mod SpreadValues
pub mod Steps
