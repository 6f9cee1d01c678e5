-- Lints: diagnostics on the macro definitions of a file, without a call.
pub mod Definitions
pub mod Lint
pub mod Linter
pub mod SimilarSpecifier
pub mod RepetitionLints
pub mod UnreachableLints
pub mod ErrorLocation
pub mod ParsedMacroViews
pub mod VariableDisplay
pub mod FindingMessages
pub mod VariableSyntax
