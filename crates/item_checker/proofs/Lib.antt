pub mod FirstItems
pub mod FoundKeys
pub mod Options
pub mod OtherOutputs
pub mod SummaryTests
pub mod Summed
