pub mod Vocabulary
pub mod arcs
pub mod CellsRead
pub mod CellsWritten
pub mod PlaceByPlace
pub mod SameTexts
pub mod OneByOne
pub mod LineTexts
pub mod Characters
pub mod EpochLines
pub mod EpochTexts
pub mod RowByRow
pub mod RowsByHistory
pub mod Writing
pub mod AddedNames
pub mod AnnouncedRows
pub mod Identifiers
pub mod Marks
pub mod Naming
mod RepeatedNames
pub mod GoodResults
pub mod ShownEpochs
pub mod ShownRows
pub mod SoundTexts
pub mod reading
pub mod wayback
pub mod anywriter
pub mod soundness
mod PaddedColumns
pub mod Lists
pub mod AlikeFrom
pub mod PrintedBlocks
mod SatelliteLines
pub mod Resizing
pub mod CellsFor
pub mod placing
