-- Entries of buffers and what builders do to them.
pub mod Built
pub mod Grown
pub mod Unwrapped
pub mod OpenGroups
pub mod Spelled
pub mod Seen
