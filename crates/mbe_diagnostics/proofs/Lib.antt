pub mod SpanLemmas
pub mod ExcerptLemmas
pub mod RuleLemmas
pub mod LintLemmas
pub mod LoopLemmas
