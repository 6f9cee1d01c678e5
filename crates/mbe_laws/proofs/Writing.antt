-- Spans of what is written, and where it comes from.
pub mod SpanLemmas
pub mod SourceLemmas
pub mod LawLemmas
