pub mod Coverage
pub mod Laws
