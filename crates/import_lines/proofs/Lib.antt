pub mod LineEnds
pub mod Replacing
pub mod Utf8Tests
