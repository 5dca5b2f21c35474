pub mod Begun
pub mod Causes
pub mod ToldOfNone
pub mod NewPlace
pub mod Options
pub mod Writing
pub mod OptionPlaces
