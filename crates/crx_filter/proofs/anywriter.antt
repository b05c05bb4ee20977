-- Compact text of a file is expanded to that file, whoever wrote it, and no other text is accepted.
pub mod AnyText
pub mod TextCompactedHere
pub mod RestoredFiles
pub mod UnitsOfLines
pub mod ReadingsOfText
pub mod AcceptedTexts
pub mod RunsOfAnyText
