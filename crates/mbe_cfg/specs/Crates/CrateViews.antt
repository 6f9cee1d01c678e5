-- The values of the code in the specification, independent of their allocator.
use Rattle.std.specs.Prelude.{option_map, Result, Ok, Err}
use Rattle.std.specs.String.{string_bytes}
use Rattle.mbe_tt.specs.Views.LeafViews.{ident_of}
use Rattle.mbe_tt.specs.Views.View.{trees}
use Rattle.mbe_cfg.specs.Files.ModuleDirViews.{module_dir_shown, candidates_shown}
use Rattle.mbe_cfg.specs.Crates.ModuleItems as fronts
use Rattle.mbe_cfg.specs.Crates.ModuleInliner as following
use Rattle.mbe_cfg.specs.Crates.FileLookup as taking
use Rattle.mbe_cfg.specs.Crates.ExpansionModules as declaring
use Rattle.mbe_cfg.specs.declared.crates.module_items.Module.{Module}
use Rattle.mbe_cfg.specs.declared.crates.module_items.ModuleBody.{ModuleBody}
use Rattle.mbe_cfg.specs.declared.crates.module_items.ModuleBody.TheVariants as b
use Rattle.mbe_cfg.specs.declared.crates.module_items.Included.{Included}
use Rattle.mbe_cfg.specs.declared.crates.module_items.ModuleCursor.{ModuleCursor}
use Rattle.mbe_cfg.specs.declared.crates.expansion_modules.Insertion.{Insertion}
use Rattle.mbe_cfg.specs.declared.crates.file_lookup.CrateFile.{CrateFile}
use Rattle.mbe_cfg.specs.declared.crates.file_lookup.FoundFile.{FoundFile}
use Rattle.mbe_cfg.specs.declared.crates.file_lookup.FileLookupError.{FileLookupError}
use Rattle.mbe_cfg.specs.declared.crates.module_inliner.InlineContext.{InlineContext}
use Rattle.mbe_cfg.specs.declared.crates.module_inliner.UnresolvedFile.{UnresolvedFile}

abbrev pub body_shown : {A : Type 0} → ModuleBody A → fronts.ModuleBody
body_shown (b.Outside semicolon) = fronts.Outside semicolon
body_shown (b.Braces d inside) = fronts.Braces d (trees inside)

abbrev pub module_shown : {A : Type 0} → Module A → fronts.Module
module_shown m = record {
  word = ident_of m.word.now;
  name = ident_of m.name.now;
  body = body_shown m.body;
  rest = trees m.rest;
}

abbrev pub file_shown : {A : Type 0} → CrateFile A → taking.CrateFile
file_shown f = record { path = f.path.now; trees = option_map trees f.trees }

abbrev pub found_file_of : {A : Type 0} → FoundFile A → taking.FoundFile
found_file_of t =
    record { number = t.number; module_dir = module_dir_shown t.module_dir; trees = trees t.trees }

abbrev pub found_file_shown : {A : Type 0} → Result (FoundFile A) FileLookupError
    → Result taking.FoundFile FileLookupError
found_file_shown (Ok t) = Ok (found_file_of t)
found_file_shown (Err reason) = Err reason

abbrev pub inline_context_shown : {A : Type 0} → InlineContext A → following.InlineContext
inline_context_shown a =
    record { module_dir = module_dir_shown a.module_dir.now; around = a.around.now }

abbrev pub included_shown : Included → fronts.Included
included_shown i = record { at = i.at; path = i.path.now }

abbrev pub cursor_shown : {A : Type 0} → ModuleCursor A → fronts.ModuleCursor
cursor_shown l = record {
  rest = trees l.rest;
  path = option_map (λ t. t.now) l.path;
  included = option_map included_shown l.included;
}

abbrev pub unresolved_shown : {A : Type 0} → UnresolvedFile A → following.UnresolvedFile
unresolved_shown u = record {
  at = u.at;
  name = string_bytes u.name;
  candidates = candidates_shown u.candidates;
  reason = u.reason;
}

abbrev pub insertion_shown : {A : Type 0} → Insertion A → declaring.Insertion
insertion_shown i = record { end = i.end; trees = i.trees.1 }
