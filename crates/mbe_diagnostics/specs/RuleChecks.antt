-- Checks of the rules of a macro alone, without a call.
pub mod Variables
pub mod FollowCheck
pub mod OptionalSeparators
pub mod Words
pub mod Findings
pub mod Equivalence
pub mod Infallibility
pub mod FixedRepetitions
pub mod UnreachableRules
