pub mod Accounts
pub mod Chain
pub mod LogEntries
pub mod FragmentViews
pub mod DebugText
pub mod HandleChanges
pub mod Sound
