pub mod Compiles
pub mod Law
pub mod Means
pub mod Numbers
pub mod Ordered
pub mod WellNamed
