pub mod PartingLemmas
pub mod PathLemmas
pub mod SplicingLemmas
pub mod SubjectLemmas
pub mod Renaming
pub mod Worded
