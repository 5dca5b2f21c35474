pub mod Boards
pub mod Escaped
pub mod Glyphs
pub mod Picture
pub mod Touch
