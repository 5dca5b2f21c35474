pub mod Verdicts
pub mod DeadLines
