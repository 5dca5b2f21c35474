pub mod Aside
pub mod Conditions
pub mod Indexes
pub mod Keys
pub mod Patterns
pub mod Repeated
pub mod SameKeys
pub mod Warnings
