-- The definitions that have to be believed, because the promises rest on them. docs/READING.md gives their order.
pub mod Program
pub mod Calls
pub mod Jobs
pub mod Streams
pub mod Kept
