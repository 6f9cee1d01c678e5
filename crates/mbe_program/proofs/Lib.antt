pub mod Both
pub mod EditionLemmas
pub mod LintLemmas
pub mod MarkLemmas
pub mod OutcomeLemmas
pub mod Reading
pub mod VerdictLemmas
pub mod ReplyLemmas
