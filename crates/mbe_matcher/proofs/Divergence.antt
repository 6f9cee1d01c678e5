-- Where two readings of an argument part: lemmas.
pub mod Numbers
pub mod Tails
pub mod PartialReadings
pub mod Nodes
pub mod Right
pub mod StateLemmas
pub mod Marking
pub mod Reached
pub mod Whole
pub mod OffsetLemmas
pub mod Rounding
pub mod ContinuationLemmas
pub mod ContinuationSteps
