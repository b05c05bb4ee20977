-- The files that a check calls standard.
pub mod CheckLines
pub mod CheckEnded
pub mod CheckStandard
pub mod Lossless
