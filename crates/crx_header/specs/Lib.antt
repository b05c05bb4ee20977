pub mod meaning
pub mod Identifiers
pub mod ObservationTypes
