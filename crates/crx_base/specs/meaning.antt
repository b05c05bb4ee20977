-- The definitions that have to be believed. docs/READING.md gives their order.
pub mod AsRead
pub mod Choices
pub mod Faults
pub mod Lines
