pub mod meaning
pub mod Logs
pub mod LateWriters
pub mod Devices
