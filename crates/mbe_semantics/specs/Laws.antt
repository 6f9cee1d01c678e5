-- Laws of the specification, proved in mbe_laws.
pub mod Laws
pub mod Callbacks
pub mod Lawful
