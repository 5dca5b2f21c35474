pub mod FoundLayers
pub mod RecordedNames
mod Members
mod Sentinels
mod Values
mod TokenCounts
mod ValueSizes
mod KeyCounts
