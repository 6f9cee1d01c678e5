-- Dots and their numbers, and the first so many of each number.
pub mod Sift
pub mod Walk
pub mod States
