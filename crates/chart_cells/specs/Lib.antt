pub mod Layers
pub mod Taps
