-- The trees of crates, built from the files that were read.
use Rattle.std.specs.Prelude.{ℕ, Bool, not, ◌&&◌, if◌then◌else◌, codes, List, map, Option, None}
use Rattle.std.specs.Prelude.{option_map, option_and_then}
use Rattle.std.specs.List.{slice_get}
use Rattle.std.specs.Str.{bytes_eq}
use Rattle.mbe_tt.specs.Trees.Top.{Top}
use Rattle.mbe_cfg.specs.Crates.ModuleInliner.{crate_tree}
use Rattle.mbe_cfg.specs.Crates.FileLookup.{CrateFile}
use Rattle.mbe_cfg.specs.Files.ModuleDirs.{in_file}
use Rattle.mbe_session.specs.Sources.{Source}

-- A file in the form that module lookup takes.
abbrev pub file_of : Source → CrateFile
file_of s = record { path = s.path; trees = option_map (λ t. t.1) s.tree }

-- Modules are followed if `with_modules` says so, except those of standard input.
abbrev pub is_followed : Bool → List ℕ → Bool
is_followed with_modules path = with_modules && not (bytes_eq path (codes "-"))

-- The tree of the crate with this root. `None` if the root isn't Rust.
abbrev pub crate_of : Bool → List Source → ℕ → Source → Option Top
crate_of with_modules files number root =
    option_map (λ tree. if is_followed with_modules root.path
    then crate_tree (map file_of files) number (in_file root.path None) tree else tree)
    root.tree

-- The tree of the crate whose root is the file of that number.
abbrev pub crate_at : Bool → List Source → ℕ → Option Top
crate_at with_modules files number =
    option_and_then (crate_of with_modules files number) (slice_get files number)
