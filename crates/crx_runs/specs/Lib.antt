pub mod meaning
pub mod Engines
pub mod Lawful
pub mod Severities
pub mod Endings
pub mod Taking
pub mod Running
pub mod Runs
