-- What the root of a crate exports from other crates.
pub mod Exports
pub mod ExportViews
