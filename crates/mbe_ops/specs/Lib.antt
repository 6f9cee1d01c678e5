pub mod Codes
pub mod Equality
pub mod Expressions
pub mod OpFields
pub mod Views
pub mod OpIter
pub mod Errors
