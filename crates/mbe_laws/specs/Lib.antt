pub mod Bounded
pub mod Orders
pub mod Reports
pub mod Loop
