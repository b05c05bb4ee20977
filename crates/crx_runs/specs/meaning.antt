-- The definitions that have to be believed, because the promises rest on them. docs/READING.md gives their
-- order.
pub mod Messages
pub mod Results
pub mod Filters
pub mod Spans
pub mod Interruptions
pub mod Runs
