-- The pending lines.
pub mod ReadyLines
