pub mod Contexts
pub mod FirstStates
pub mod OwnKeys
pub mod Previews
