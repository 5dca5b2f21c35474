pub mod DeadRules
pub mod Laws
