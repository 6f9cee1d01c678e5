-- The out-of-line modules of a text, whose content is in other files.
use Rattle.std.specs.Prelude.{◌≡◌, ℕ, List, [], Option, Some, None}
use Rattle.mbe_tt.specs.Trees.Top.{Top}
use Rattle.mbe_cfg.specs.Crates.ModuleInliner.{UnresolvedFile, unresolved_in}
use Rattle.mbe_cfg.specs.Files.ModuleDirs.{ModuleDir}
use Rattle.mbe_session.specs.declared.source_settings.SourceSettings.{SourceSettings}
use Rattle.mbe_session.specs.CallModules.{CallText}
use Rattle.mbe_session.specs.Sources.{IsFileTree}

-- The modules that have no file when no other file is read.
abbrev pub modules_of : ModuleDir → Option Top → List UnresolvedFile
modules_of place None = []
modules_of place (Some tree) = unresolved_in [] 0 place tree

abbrev pub AreModules : SourceSettings → ModuleDir → List ℕ → List CallText → List UnresolvedFile
    → Type 0
AreModules r place text calls modules =
    (tree : Option Top) × IsFileTree r 0 text calls tree × (modules ≡ modules_of place tree)
