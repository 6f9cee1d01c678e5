-- The states that partial readings reach, and where two readings diverge.
pub mod Divergence
pub mod States
pub mod Graph
pub mod Views
pub mod Continuation
pub mod ReachedStates
