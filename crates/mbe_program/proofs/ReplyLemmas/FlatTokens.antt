-- Flat tokens: what is written of trees, and that what is read is a tree.
pub mod WalkLemmas
pub mod ReadLemmas
pub mod FaultLemmas
