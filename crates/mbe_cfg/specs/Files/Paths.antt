-- Paths of files and folders. A `/` is between their parts.
use Rattle.std.specs.Prelude.{ℕ, Bool, false, not, ◌==◌, ◌-◌, if◌then◌else◌}
use Rattle.std.specs.Prelude.{List, [], ◌++◌, length, codes, Option, Some, None, unwrap_or}
use Rattle.std.specs.List.{slice_get}
use Rattle.std.specs.Path.{path_parent}

abbrev pub is_slash : Option ℕ → Bool
is_slash None = false
is_slash (Some byte) = byte == 47

-- The path begins at the root.
abbrev pub is_absolute : List ℕ → Bool
is_absolute path = is_slash (slice_get path 0)

abbrev pub is_no_slash : Option ℕ → Bool
is_no_slash None = false
is_no_slash (Some byte) = not (byte == 47)

-- A `/` must follow the folder.
abbrev pub needs_separator : List ℕ → Bool
needs_separator folder = is_no_slash (slice_get folder (length folder - 1))

abbrev pub with_slash : List ℕ → List ℕ
with_slash folder = if needs_separator folder then folder ++ codes "/" else folder

-- A path that is relative to a folder. An absolute path is unchanged.
abbrev pub join : List ℕ → List ℕ → List ℕ
join folder path = if is_absolute path then path else with_slash folder ++ path

-- The folder of a file. It is empty if the path has only one part.
abbrev pub folder_of : List ℕ → List ℕ
folder_of path = unwrap_or (path_parent path) []
