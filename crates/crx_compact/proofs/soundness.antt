-- Epochs that were read are sound, and within the limits.
pub mod Soundness
pub mod WholeEpochs
