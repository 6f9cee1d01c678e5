-- What can be said of the rules of a macro alone: lemmas.
pub mod Loops
pub mod Sizes
pub mod Infallible
pub mod Fixed
pub mod Optional
