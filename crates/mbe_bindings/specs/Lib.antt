pub mod BindingViews
pub mod Replay
pub mod LinkTraversal
pub mod LogCompaction
pub mod FlatEntries
pub mod ListGrowth
pub mod KeptLists
pub mod PlainCommands
