-- What a grammar of fragments returns.
pub mod Grammar
