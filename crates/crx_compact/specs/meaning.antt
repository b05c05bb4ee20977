-- The definitions to be believed, because the promises stand on them. docs/READING.md gives their order.
pub mod Sequences
pub mod Differences
pub mod ArcValues
pub mod Cells
pub mod Compaction
pub mod EpochText
pub mod Expansion
pub mod Past
pub mod CompactPlaces
pub mod AnyWriter
