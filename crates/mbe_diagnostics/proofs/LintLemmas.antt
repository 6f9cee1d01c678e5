-- What is said of the macro definitions of a file alone: lemmas.
pub mod DefinitionLemmas
pub mod LocationLemmas
pub mod VariableLemmas
