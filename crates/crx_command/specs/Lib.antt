pub mod meaning
pub mod Arguments
pub mod Names
pub mod Planning
pub mod Usage
