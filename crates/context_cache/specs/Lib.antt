pub mod CacheLaws
pub mod Cached
