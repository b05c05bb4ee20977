-- The units saved of text that is damaged in stretches.
pub mod OpenReading
pub mod KeptUnits
pub mod StretchesRead
pub mod StretchesCut
pub mod StretchesSaved
pub mod StretchesCompactedHere
