-- Trees are ops or have a fault, and the ops are one.
pub mod HeadLemmas
pub mod TemplateLemmas
