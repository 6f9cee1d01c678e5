pub mod EqualityLemmas
pub mod Fragments
pub mod OpViews
pub mod WalkLemmas
pub mod OpSizes
