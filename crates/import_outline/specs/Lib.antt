pub mod Laws
pub mod LineKinds
pub mod Names
pub mod Outline
