pub mod ParserResults
pub mod LocatedErrors
pub mod RuleViews
pub mod RuleStops
pub mod RuleResults
pub mod FaultOffsets
pub mod RefusedRepetitions
pub mod Refusals
