pub mod TranscriberSteps
pub mod TemplateFaults
pub mod PartialExpansion
