pub mod Contexts
pub mod Engines
mod HeldTexts
pub mod OptionNames
pub mod OptionSteps
pub mod OtherStores
pub mod Runnable
pub mod Stores
pub mod Truths
pub mod Windows
