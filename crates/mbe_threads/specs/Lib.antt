pub mod Remainder
pub mod VisitCounts
pub mod Stops
