pub mod AllConverted
pub mod EmptyAsNomatch
pub mod NomatchRule
pub mod NulFirst
pub mod NulMoved
pub mod PlainSides
pub mod SameTraces
