pub mod OptionFlags
pub mod OwnNames
pub mod Words
pub mod Numbers
