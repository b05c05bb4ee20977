pub mod meaning
pub mod Devices
pub mod Holdings
pub mod Progress
pub mod Readers
pub mod Reading
pub mod Seeking
pub mod Window
