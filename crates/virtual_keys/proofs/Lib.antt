pub mod EntryLemmas
pub mod GroupLemmas
pub mod HexLemmas
pub mod PositionLemmas
pub mod NamePlaces
pub mod NumberSets
pub mod WordBytes
