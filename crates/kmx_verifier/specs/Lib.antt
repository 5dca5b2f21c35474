pub mod FaultOf
pub mod Items
pub mod Laws
pub mod Looked
pub mod Options
