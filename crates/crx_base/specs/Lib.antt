pub mod meaning
pub mod Padded
