-- What the calls of other languages answer: lemmas.
pub mod BareLemmas
pub mod CallLemmas
pub mod KeptLemmas
pub mod ReadLemmas
pub mod FlatTokens
