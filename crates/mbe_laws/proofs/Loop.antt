-- The loops of a program: over the stack at a place, and over places.
pub mod BoundedOffsets
pub mod BoundedLoop
pub mod TurnedOffsets
pub mod TurnedLoop
pub mod FlagLoop
pub mod FlagOffsets
