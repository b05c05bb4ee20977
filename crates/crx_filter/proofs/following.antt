-- A direction that works line by line has the same effect as its definition for all lines at once.
pub mod Agreement
pub mod LinesAtStops
pub mod MoreLines
pub mod Rinex
pub mod Compaction
pub mod Expansion
pub mod Check
pub mod CompactedOn
pub mod ExpandedOn
pub mod CheckedOn
pub mod Lawful
pub mod CheckLawful
pub mod CheckByFilter
pub mod CutOffWarnings
pub mod DirectionSteps
