pub mod Answered
pub mod Differs
pub mod Left
pub mod LongFiles
