pub mod Beside
pub mod Command
pub mod LayoutNames
pub mod Seen
pub mod Status
pub mod Tells
pub mod Lines
pub mod Reasons
