-- The definitions that have to be believed, because the promises rest on them. docs/READING.md gives their order.
pub mod Answers
pub mod Calls
pub mod Ended
pub mod Handles
pub mod Lossless
pub mod Promises
pub mod Stretches
pub mod Kept
