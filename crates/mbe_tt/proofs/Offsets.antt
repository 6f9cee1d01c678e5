-- Places in trees, and what is left there.
pub mod OffsetLemmas
pub mod CursorLemmas
pub mod CutLemmas
pub mod LastTreeLemmas
pub mod EndLemmas
