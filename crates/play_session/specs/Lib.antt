pub mod Answers
pub mod Changes
pub mod Playing
pub mod Printed
pub mod Session
