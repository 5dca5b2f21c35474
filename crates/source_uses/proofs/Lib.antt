pub mod Chosen
pub mod Denoted
pub mod InLines
pub mod Walks
