-- The pending lines and their bounds.
pub mod ReadyToHandOut
pub mod Bounds
