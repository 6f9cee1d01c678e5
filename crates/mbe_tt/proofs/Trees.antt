-- The first of trees, trees after trees, and walks over them.
pub mod Firsts
pub mod Joined
pub mod Walks
