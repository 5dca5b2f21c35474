pub mod Ends
pub mod FoldedNames
pub mod OptionFlags
pub mod PlatformWords
pub mod SystemNumbers
pub mod Words
pub mod Sets
