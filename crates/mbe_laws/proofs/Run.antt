-- The bounded run returns what the full one does.
pub mod Moves
pub mod BoundedRun
pub mod ExampleLemmas
