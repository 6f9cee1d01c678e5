-- The folders in which the files of modules are looked for. The Reference defines them.
use Rattle.std.specs.Prelude.{ℕ, List, ◌++◌, codes, Option, Some, None}
use Rattle.mbe_cfg.specs.Files.Paths.{join, folder_of}

-- A file's folder, and that folder with the names of the inline modules from there on. `own` is the
-- file's own name, if its modules are in a folder of that name. A crate's root, a `mod.rs`, and a
-- file that `#[path]` or `include!` names have no own name. An inline module has none either,
-- because it has added the name to the folder.
pub record ModuleDir : Type 0 where
  pub file_folder : List ℕ
  pub folder : List ℕ
  pub own : Option (List ℕ)

abbrev pub with_own : List ℕ → Option (List ℕ) → List ℕ
with_own folder None = folder
with_own folder (Some own) = join folder own

-- The folder of the modules.
abbrev pub modules_folder : ModuleDir → List ℕ
modules_folder p = with_own p.folder p.own

abbrev pub in_modules_folder : ModuleDir → List ℕ → List ℕ
in_modules_folder p path = join (modules_folder p) path

-- `#[path]` is relative to the folder, and a name to the folder of the modules.
abbrev pub folder_inside : ModuleDir → List ℕ → Option (List ℕ) → List ℕ
folder_inside p name None = in_modules_folder p name
folder_inside p name (Some path) = join p.folder path

-- The folders for the files of modules in an inline module of that name, with or without `#[path]`.
abbrev pub inside : ModuleDir → List ℕ → Option (List ℕ) → ModuleDir
inside p name path =
    record { file_folder = p.file_folder; folder = folder_inside p name path; own = None }

-- The file that `include!` or `#[path]` names, or two files, of which exactly one must exist.
pub data Candidates : Type 0 where
  Included : List ℕ → Candidates
  Given : List ℕ → Candidates
  Usual : List ℕ → List ℕ → Candidates

abbrev pub usual : ModuleDir → List ℕ → Candidates
usual p name = Usual (in_modules_folder p name
    ++ codes ".rs") (join (in_modules_folder p name) (codes "mod.rs"))

abbrev pub candidates : ModuleDir → List ℕ → Option (List ℕ) → Candidates
candidates p name None = usual p name
candidates p name (Some path) = Given (join p.folder path)

-- `include!` is relative to the folder of the file.
abbrev pub included : ModuleDir → List ℕ → Candidates
included p path = Included (join p.file_folder path)

-- The folders for the files of modules in the file `name.rs`.
abbrev pub of_file : ModuleDir → List ℕ → ModuleDir
of_file p name =
    record { file_folder = modules_folder p; folder = modules_folder p; own = Some name }

-- The folders for the files of modules in a file with that path. If a name is given, it is the
-- folder of that name in the file's folder. Else it is the file's folder.
abbrev pub in_file : List ℕ → Option (List ℕ) → ModuleDir
in_file path own = record { file_folder = folder_of path; folder = folder_of path; own = own }
