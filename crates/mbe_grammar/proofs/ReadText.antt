-- How the text of a grammar is read: its lines, its words, the names of its rules, and the nodes that they make.
pub mod CharLemmas
pub mod LineLemmas
pub mod NameLemmas
pub mod ReadingLemmas
pub mod StepLemmas
pub mod WordLemmas
