-- The statements of the laws of Rust text: the written text of trees is read as these trees.
pub mod RoundTrip
pub mod Gaps
pub mod Lexed
pub mod RustTrees
