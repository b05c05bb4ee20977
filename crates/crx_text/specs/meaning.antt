-- The definitions that have to be believed. docs/READING.md gives their order.
pub mod Columns
pub mod Texts
pub mod EachPlace
pub mod Codes
pub mod Numbers
pub mod PrintedCells
