pub mod Buffers
pub mod Offsets
pub mod Glue
pub mod Trees
