pub mod FirstItems
pub mod Results
pub mod Operands
pub mod Sizes
