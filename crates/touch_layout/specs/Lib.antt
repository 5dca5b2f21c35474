pub mod Faults
pub mod Ids
pub mod Keys
pub mod Layers
pub mod LayerIds
pub mod Layout
