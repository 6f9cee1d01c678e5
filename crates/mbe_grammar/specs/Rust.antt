-- What is specified of Rust's table: its nodes, its keywords, the rules of its entry points, and
-- that each rule that is named exists.
pub mod Closed
pub mod Keywords
pub mod Nodes
pub mod Starts
