pub mod AdvanceLemmas
pub mod FeedLemmas
pub mod PieceLemmas
pub mod ProgressLemmas
pub mod ReturnLemmas
pub mod SeekLemmas
pub mod WindowLemmas
