pub mod AskedLaws
pub mod FileRuns
pub mod HostRuns
pub mod InputLaws
mod LayoutLaws
mod LoadLaws
pub mod MeaningLaws
pub mod RunLaws
pub mod ShadowLaws
mod StatedLoads
pub mod TextLaws
pub mod TraceLaws
pub mod WordsLaws
pub mod WorkLaws
