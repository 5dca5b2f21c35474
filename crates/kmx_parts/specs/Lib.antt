pub mod ContextItems
