-- The definitions that have to be believed. docs/READING.md gives their order.
pub mod EpochLines
pub mod SatelliteLines
pub mod Observations
pub mod Epochs
pub mod Printing
pub mod Places
pub mod Units
pub mod EpochPlaces
