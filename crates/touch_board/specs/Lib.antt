pub mod Caps
pub mod Layers
pub mod Sizes
pub mod Words
