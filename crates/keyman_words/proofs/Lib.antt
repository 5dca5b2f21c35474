pub mod BesideLaws
pub mod Printed
pub mod Hexadecimal
