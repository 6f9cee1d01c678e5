-- Token trees: leaves, forests, glued puncts, literals, the group of a buffer.
pub mod Leaf
pub mod Tree
pub mod Glue
pub mod Literals
pub mod Editions
pub mod Top
pub mod FragmentGroup
