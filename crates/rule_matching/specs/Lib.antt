pub mod Choices
pub mod KnownPlaces
pub mod Matching
pub mod MatchState
pub mod PlaceMemory
pub mod StoreMarks
pub mod StoreValues
