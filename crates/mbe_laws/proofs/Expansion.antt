-- One tree by one rule, and the expansion theorem from three trees.
pub mod ExpansionLemmas
pub mod FromTreesLemmas
