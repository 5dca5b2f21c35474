pub mod Laws
pub mod Picture
pub mod Source
