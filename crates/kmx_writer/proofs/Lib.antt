pub mod Strings
pub mod TextSteps
pub mod RuleSteps
pub mod Whole
