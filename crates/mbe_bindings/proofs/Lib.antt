pub mod BindingLemmas
pub mod BuildLemmas
pub mod CompactLemmas
pub mod CompactSteps
pub mod CountLemmas
pub mod ReadLemmas
pub mod RowLemmas
pub mod StepLemmas
