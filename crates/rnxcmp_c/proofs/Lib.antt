pub mod EndAtLine
pub mod EndedLemmas
pub mod FedLemmas
pub mod GoingLemmas
pub mod HandleLemmas
pub mod PromisesOfCalls
pub mod Lossless
mod LooseValues
pub mod PieceLemmas
pub mod PromiseLemmas
pub mod PointerVocabulary
mod ReaderBoxValues
pub mod ReaderLemmas
pub mod RunLemmas
pub mod TakenLemmas
pub mod WithinLemmas
pub mod Vocabulary
