-- Grammars as tables: what the rules of a table consume, and that every table is lawful.
pub mod Editions
pub mod FlatTrees
pub mod Lawful
pub mod Rule
pub mod SingleTrees
pub mod ParseResult
pub mod Terminals
