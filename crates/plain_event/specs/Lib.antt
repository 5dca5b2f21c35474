pub mod Entering
pub mod PlainStates
