pub mod AlikeKinds
pub mod CommandSteps
pub mod DateFits
pub mod JobFits
pub mod NumberRead
pub mod PlanSteps
