pub mod WritingLemmas
pub mod WroteLemmas
pub mod VariableLemmas
pub mod JoinLemmas
pub mod AgreeLemmas
pub mod FaultLemmas
pub mod LeftLemmas
