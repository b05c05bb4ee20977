-- The compact text of epochs is read back as these epochs.
pub mod Reading
pub mod Rows
pub mod Runs
pub mod WritableEpochs
pub mod LinesInFiles
pub mod Overlays
pub mod Tailing
