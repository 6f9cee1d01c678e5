-- The kinds of fragments, and the fragment that a variable matches at the front of trees.
pub mod Kinds
pub mod FragmentFront
