-- The table that the text of a grammar describes, or the error in it.
pub mod ErrorTexts
pub mod Grammar
pub mod Views
pub mod Tokens
