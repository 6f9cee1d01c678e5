-- The first and the last of each dot.
pub mod EndLemmas
pub mod BackwardLemmas
