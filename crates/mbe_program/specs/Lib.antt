pub mod TreeExpansion
pub mod TextExpansion
pub mod VerdictLines
pub mod Options
pub mod Outcomes
pub mod ExpansionText
pub mod FileFailures
pub mod Replies
