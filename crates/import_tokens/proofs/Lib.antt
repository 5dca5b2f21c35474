pub mod Counted
pub mod KeyRanges
pub mod KeyTokens
pub mod Scans
pub mod SpacedDots
pub mod Spelled
pub mod SpelledSteps
