-- How clauses see the values of the code: as trees.
pub mod SymbolText
pub mod BufferEntry
pub mod BufferEntries
pub mod LeafViews
pub mod View
pub mod Element
pub mod Savepoint
