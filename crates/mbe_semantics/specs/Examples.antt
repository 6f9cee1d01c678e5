-- Worked examples, proved in mbe_laws.
pub mod Sample
pub mod FirstExamples
pub mod Examples
pub mod FurtherExamples
pub mod LogExamples
