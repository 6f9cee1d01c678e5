-- The bounded run in other orders.
pub mod Spare
pub mod OrderLemmas
pub mod DropLemmas
pub mod DropExampleLemmas
