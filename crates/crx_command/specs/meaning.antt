-- The definitions that have to be believed. docs/READING.md gives their order.
pub mod Commands
pub mod Names
pub mod Planning
pub mod ErrorLines
pub mod Dates
