pub mod Named
pub mod Stores
pub mod Marks
pub mod Groups
pub mod Options
pub mod Values
pub mod Laid
