-- New names for locals and labels: which words they are, which names are free, and that nothing else changes.
pub mod ApartLemmas
pub mod BesideLemmas
pub mod FreshLemmas
pub mod ListLemmas
pub mod MentionLemmas
pub mod NestLemmas
pub mod NumberedLemmas
pub mod SameLemmas
pub mod SettledLemmas
pub mod ShapeLemmas
pub mod TakenLemmas
pub mod WalkLemmas
pub mod WrittenLemmas
