-- Which words of an expansion are locals and labels, and which names they get.
pub mod TokenClasses
pub mod Lookahead
pub mod Contexts
pub mod ScanState
pub mod Roles
pub mod TreeEvents
pub mod FormatNames
pub mod LocalNames
pub mod Renamer
pub mod Laws
pub mod EventViews
pub mod Buckets
pub mod PatternCalls
