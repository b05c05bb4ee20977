-- The definitions that have to be believed. docs/READING.md gives their order.
pub mod Label
pub mod InOrder
pub mod Header
pub mod ObservationTypes
pub mod CompactHeader
pub mod Satellites
pub mod EpochColumns
