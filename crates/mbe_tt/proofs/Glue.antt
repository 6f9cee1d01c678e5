-- Glued puncts.
pub mod GlueLemmas
