-- The lines of an epoch, whoever wrote them, are read as that epoch, and no other lines are.
pub mod Arcs
pub mod Texts
pub mod Rows
pub mod Epochs
pub mod OurWriter
pub mod OurReading
pub mod OnlyRows
pub mod OnlyEpochs
