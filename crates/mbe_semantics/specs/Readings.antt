-- How a pattern reads an argument: items, partial readings, steps, local ambiguity, verdicts.
pub mod Item
pub mod Fit
pub mod Input
pub mod Reading
pub mod Steps
pub mod Ambiguity
pub mod Verdict
