-- Each line of an input is accounted for, skipping faults leaves lines out, and blocks are short.
pub mod LineFates
pub mod CopiedUnits
pub mod OwnedLines
pub mod LinesLeftOut
pub mod ShortBlocks
pub mod ByResults
