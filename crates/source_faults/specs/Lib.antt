pub mod Words
pub mod Reading
pub mod Stubs
pub mod RefusedLines
pub mod Faults
pub mod Laws
