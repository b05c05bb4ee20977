-- The ready lines, and the bound on their number.
pub mod Readiness
