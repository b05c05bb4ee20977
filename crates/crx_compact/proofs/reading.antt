-- Compact text read line by line.
pub mod PaddedRows
pub mod NoMemory
pub mod StepsByCode
pub mod LineByLine
pub mod SteadyEpochs
pub mod Forgetting
pub mod RawTailing
pub mod Blocks
pub mod Announced
pub mod Stages
