-- The trees of a crate, with those of its modules' files.
pub mod ModuleItems
pub mod FileLookup
pub mod ModuleInliner
pub mod CrateViews
pub mod InlinerSteps
pub mod ExpansionModules
