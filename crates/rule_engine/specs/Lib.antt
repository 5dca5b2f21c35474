pub mod Engine
pub mod Event
