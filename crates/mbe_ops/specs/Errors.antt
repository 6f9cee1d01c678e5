-- How contracts see errors of definitions and of expansions.
pub mod ErrorViews
