-- What a reading binds, and what a handle of the log of bindings stands for.
pub mod Environment
pub mod Missing
pub mod Account
