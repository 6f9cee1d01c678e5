pub mod AttributeLemmas
pub mod PredicateLemmas
mod BelowLemmas
mod FollowLemmas
mod DeclareLemmas
pub mod StripLemmas
pub mod ExportLemmas
mod EnabledLemmas
