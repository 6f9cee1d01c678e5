-- The expansion of a template under bindings: rounds, fragments, concatenations, substitutions,
-- faults.
pub mod Rounds
pub mod FragmentTrees
pub mod Concat
pub mod Substitution
