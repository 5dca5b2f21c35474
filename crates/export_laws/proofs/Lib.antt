pub mod ExportsAlike
