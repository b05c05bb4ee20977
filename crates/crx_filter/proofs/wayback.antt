-- A compacted file is restored.
pub mod WayBack
pub mod LinesCutAgain
pub mod FirstTwoLines
pub mod Items
pub mod Reading
pub mod Standard
pub mod RestoredIsStandard
pub mod UnitsReadAgain
pub mod ExpandedWhole
pub mod Returns
pub mod ReturnsLost
pub mod NormalForm
pub mod Canonical
pub mod Units
pub mod ExpandedStandard
