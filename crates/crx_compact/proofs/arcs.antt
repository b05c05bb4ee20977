-- Arcs: their differences, the sums of these, and how large they may become.
pub mod Weights
pub mod Inversion
pub mod Running
pub mod Stepping
pub mod Bounds
pub mod Arcs
