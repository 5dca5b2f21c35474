pub mod StandingTexts
pub mod Lefts
