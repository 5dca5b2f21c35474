pub mod ExplainedBytes
pub mod LikeSystems
pub mod MeantKeys
