-- The satellites of a history in one map: those with a row, those without one yet, and those that aren't in use.
pub mod Orders
pub mod Ranges
pub mod Rooms
pub mod PutNext
pub mod EntryChanges
pub mod LookUps
pub mod RepeatedRows
pub mod AddedRows
pub mod ReservedRoom
pub mod SteppedRows
pub mod AddingAnswers
