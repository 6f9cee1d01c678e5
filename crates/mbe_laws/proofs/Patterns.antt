-- Patterns that are words, or one repetition.
pub mod ListLemmas
pub mod WordLemmas
