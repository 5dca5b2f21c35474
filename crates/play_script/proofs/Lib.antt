pub mod Hexadecimal
pub mod WordLaws
pub mod SplitLaws
pub mod StringLaws
pub mod LineLaws
pub mod TextLaws
