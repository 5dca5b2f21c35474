pub mod Checksum
pub mod Export
pub mod ExportLaws
pub mod Laws
pub mod Readable
pub mod Saves
pub mod Told
