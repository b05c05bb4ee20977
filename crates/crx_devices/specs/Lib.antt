pub mod Joining
pub mod Plans
