-- Epochs that were read are sound, and within the limits.
pub mod BoundedTails
pub mod BoundedReading
pub mod GoodLists
