-- Patterns, templates, definitions: what the trees of a definition mean.
pub mod Op
pub mod Template
pub mod Nullable
pub mod Definition
