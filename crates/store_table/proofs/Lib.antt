pub mod FirstAmong
pub mod Firsts
pub mod Naming
pub mod PlaceLemmas
pub mod ByAppearance
pub mod TextSets
