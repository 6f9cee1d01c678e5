-- The file that `mod x;` names.
pub mod Paths
pub mod ModuleDirs
pub mod ModuleDirViews
