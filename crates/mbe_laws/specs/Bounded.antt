-- The bounded run: it keeps at most two partial readings of each state at each offset.
pub mod States
pub mod ClosureTwoEach
pub mod Run
pub mod Laws
pub mod DeepExample
