pub mod Groups
pub mod DeadRules
pub mod FoundDead
