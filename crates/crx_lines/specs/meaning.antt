-- The definitions that have to be believed. docs/READING.md gives their order.
pub mod Devices
