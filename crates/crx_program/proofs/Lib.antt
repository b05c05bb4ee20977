pub mod CallLemmas
pub mod Refusals
pub mod StreamLemmas
pub mod KeptLemmas
