pub mod OneByOne
pub mod Pages
pub mod Sizes
pub mod Texts
pub mod Whole
