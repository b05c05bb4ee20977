-- The steps of an engine at one line, and its answers.
pub mod EngineAnswers
pub mod CompactionSteps
pub mod RowSteps
pub mod CompactionParts
pub mod EngineFaults
pub mod ExpansionKnows
pub mod LinesFedAgain
pub mod StepCounts
pub mod CheckerSteps
pub mod CheckerEnds
pub mod CompactionKnows
