-- Fragments that must stay whole where their text would be parsed differently: types before a `<`,
-- negative literals before a `.`, and the arguments of builtin macros.
pub mod FrontTokens
pub mod BuiltinNames
pub mod LineColumn
pub mod Receivers
pub mod TreeSearch
pub mod VariableParentheses
pub mod BuiltinCalls
pub mod FragmentGroups
pub mod GroupLaws
pub mod Operands
