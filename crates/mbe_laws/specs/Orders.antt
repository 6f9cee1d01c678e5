-- The bounded run where the partial readings that arrive at an offset are visited in another order.
pub mod Order
pub mod OrderLaws
pub mod DropExample
