pub mod Meanings
pub mod Details
pub mod Advice
pub mod WarningTexts
