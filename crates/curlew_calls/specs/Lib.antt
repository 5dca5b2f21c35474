pub mod Answers
pub mod Calls
pub mod Numbers
pub mod Laws
