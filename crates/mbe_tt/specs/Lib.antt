pub mod Trees
pub mod Views
pub mod Buffers
pub mod Grammars
pub mod Laws
