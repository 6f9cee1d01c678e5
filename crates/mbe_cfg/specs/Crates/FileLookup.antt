-- The file of a module among the files that were read.
use Rattle.std.specs.Prelude.{ℕ, zero, suc, Bool, false, ◌==◌, if◌then◌else◌, List, length, Option}
use Rattle.std.specs.Prelude.{Some, None, option_and_then, Result, Ok, Err}
use Rattle.std.specs.List.{list_any, slice_get}
use Rattle.std.specs.Str.{bytes_eq}
use Rattle.mbe_tt.specs.Trees.Tree.{Forest}
use Rattle.mbe_cfg.specs.Files.ModuleDirs.{ModuleDir, Candidates, Included, Given, Usual, in_file}
use Rattle.mbe_cfg.specs.declared.crates.file_lookup.FileLookupError.{FileLookupError}
use Rattle.mbe_cfg.specs.declared.crates.file_lookup.FileLookupError.TheVariants.{Missing, Both}
use Rattle.mbe_cfg.specs.declared.crates.file_lookup.FileLookupError.TheVariants.{Circular, NoRust}

-- A file that was read: its path, and its trees if it is a Rust file.
pub record CrateFile : Type 0 where
  pub path : List ℕ
  pub trees : Option Forest

abbrev pub has_path : List ℕ → Option CrateFile → Bool
has_path path None = false
has_path path (Some file) = bytes_eq file.path path

-- The last number below n that passes the test.
unfoldable pub last_below : (ℕ → Bool) → ℕ → Option ℕ
last_below p zero = None
last_below p (suc n) = if p n then Some n else last_below p n

-- The number of the file with that path, if it was read.
abbrev pub file_number : List CrateFile → List ℕ → Option ℕ
file_number files path = last_below (λ n. has_path path (slice_get files n)) (length files)

-- A file that holds a module: its number, the folder of the modules in it, and its trees.
pub record FoundFile : Type 0 where
  pub number : ℕ
  pub module_dir : ModuleDir
  pub trees : Forest

abbrev pub found_if_rust : ℕ → ModuleDir → Option Forest → Result FoundFile FileLookupError
found_if_rust n module_dir None = Err NoRust
found_if_rust n module_dir (Some trees) =
    Ok (record { number = n; module_dir = module_dir; trees = trees })

abbrev pub trees_of_file : List CrateFile → ℕ → Option Forest
trees_of_file files n = option_and_then (λ file. file.trees) (slice_get files n)

-- The file of a module. It is an error if that file is around the module.
abbrev pub acyclic_file : List CrateFile → List ℕ → ℕ → ModuleDir → Result FoundFile FileLookupError
acyclic_file files around n module_dir =
    if list_any (λ m. m == n) around then Err Circular else found_if_rust n module_dir
    (trees_of_file files n)

abbrev pub found_given : List CrateFile → List ℕ → List ℕ → Option ℕ
    → Result FoundFile FileLookupError
found_given files around path None = Err Missing
found_given files around path (Some n) = acyclic_file files around n (in_file path None)

-- Exactly one of the two must have been read.
abbrev pub found_usual : List CrateFile → List ℕ → (name beside nested : List ℕ) → Option ℕ
    → Option ℕ → Result FoundFile FileLookupError
found_usual files around name beside nested None None = Err Missing
found_usual files around name beside nested (Some n) None =
    acyclic_file files around n (in_file beside (Some name))
found_usual files around name beside nested None (Some n) =
    acyclic_file files around n (in_file nested None)
found_usual files around name beside nested (Some n) (Some m) = Err Both

-- The file, among those that were read, that holds the module of that name, or that is included.
-- The files of these numbers are around it.
abbrev pub found_file : List CrateFile → List ℕ → List ℕ → Candidates
    → Result FoundFile FileLookupError
found_file files around name (Included path) =
    found_given files around path (file_number files path)
found_file files around name (Given path) = found_given files around path (file_number files path)
found_file files around name (Usual beside nested) =
    found_usual files around name beside nested (file_number files beside)
    (file_number files nested)
