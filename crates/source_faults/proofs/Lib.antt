pub mod FirstRead
pub mod FirstFault
pub mod SourceBytes
pub mod ReadLines
pub mod InLines
pub mod LineCodes
