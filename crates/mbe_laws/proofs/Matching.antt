-- The law of the matcher: at each place, what is held are the beginnings that end there, each once.
pub mod Law
pub mod Advance
pub mod Ambiguities
pub mod EndLemmas
pub mod Final
pub mod Forest
pub mod Moves
pub mod ThreadModels
pub mod Offsets
pub mod Rank
pub mod RunLemmas
pub mod Closure
pub mod Sound
