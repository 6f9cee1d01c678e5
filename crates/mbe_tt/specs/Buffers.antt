-- Definitions for private code: what a builder has written, and offsets in a buffer.
pub mod GroupStack
pub mod OpensAt
pub mod Offsets
