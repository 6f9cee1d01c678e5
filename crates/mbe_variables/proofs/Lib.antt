pub mod FollowLemmas
pub mod FragmentLemmas
pub mod PathLemmas
pub mod PutLemmas
pub mod WholeLemmas
