pub mod Each
pub mod Told
pub mod FirstCauses
pub mod InLines
pub mod Reported
