-- The expansion theorem: macros, errors, the choice of the rule, recovery.
pub mod Macro
pub mod Error
pub mod MatchError
pub mod Commitment
pub mod Expansion
pub mod Recovery
pub mod ParsedMacro
pub mod FromTrees
