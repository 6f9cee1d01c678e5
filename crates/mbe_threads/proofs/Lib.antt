pub mod Counting
pub mod Sources
pub mod WholeFronts
